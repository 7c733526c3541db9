pub mod Events
pub mod Quiet
pub mod Rows
pub mod Runs
