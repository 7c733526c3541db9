pub mod Friendly
pub mod Asking
pub mod Tidying
pub mod Running
pub mod Reasons
pub mod Writing
pub mod Outcome
