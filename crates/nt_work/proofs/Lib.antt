pub mod Pending
pub mod Reports
pub mod Rising
pub mod Ruled
pub mod Walks
pub mod Workers
