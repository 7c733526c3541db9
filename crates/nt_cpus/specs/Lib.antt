pub mod States
pub mod Following
pub mod Asking
pub mod Cycles
pub mod Steps
pub mod Refusals
