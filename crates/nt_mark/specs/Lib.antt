pub mod LaneState
pub mod Views
pub mod Rule
pub mod Names
pub mod Closing
