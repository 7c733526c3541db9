pub mod Holding
pub mod Agreeing
pub mod Keeping
pub mod Leaving
pub mod Seeing
pub mod Starting
