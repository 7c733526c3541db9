pub mod Pieces
pub mod Commands
pub mod Forms
pub mod Tidy
pub mod Chosen
pub mod Parser
pub mod Refusals
pub mod Usage
