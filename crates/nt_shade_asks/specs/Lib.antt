pub mod Values
pub mod Follows
pub mod Counts
