pub mod Kinds
pub mod Replies
pub mod Expectations
pub mod Fields
pub mod Reading
pub mod Gives
pub mod Meaning
