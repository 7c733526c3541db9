pub mod Audits
pub mod Changes
pub mod Queue
pub mod Rule
pub mod Workers
