pub mod Floors
pub mod Stepping
pub mod Choosing
pub mod Starting
pub mod Holding
pub mod Turning
