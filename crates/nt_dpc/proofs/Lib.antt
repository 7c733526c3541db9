pub mod Removed
pub mod Once
pub mod First
pub mod Pending
pub mod Numbered
pub mod Fewer
pub mod Events
