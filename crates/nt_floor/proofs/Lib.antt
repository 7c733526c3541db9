pub mod Values
pub mod Sums
