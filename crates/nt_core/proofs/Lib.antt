pub mod Replaying
pub mod OneRobin
pub mod Choosing
pub mod Starting
pub mod Ending
