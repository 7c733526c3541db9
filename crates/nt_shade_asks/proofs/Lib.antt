pub mod Values
pub mod LaneNumbers
pub mod Placed
pub mod Counts
pub mod Ahead
