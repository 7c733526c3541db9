pub mod Endings
pub mod Laws
pub mod Replies
pub mod Rows
pub mod Runs
