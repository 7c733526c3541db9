pub mod Replies
pub mod Looks
pub mod Witnesses
pub mod Outcome
