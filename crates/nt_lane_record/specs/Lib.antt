pub mod Passes
pub mod Records
pub mod Held
pub mod Pieces
pub mod Changed
