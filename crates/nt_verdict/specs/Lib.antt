pub mod Fails
pub mod Closed
pub mod Row
