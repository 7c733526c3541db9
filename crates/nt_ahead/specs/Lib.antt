pub mod Choices
pub mod Finds
pub mod Turns
pub mod Like
