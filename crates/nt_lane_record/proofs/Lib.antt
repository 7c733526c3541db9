pub mod Growing
pub mod Rows
pub mod Tying
pub mod Ends
pub mod LaneNumbers
pub mod Changing
pub mod Moved
