pub mod Sites
pub mod Walks
pub mod Steps
pub mod Findings
pub mod Laws
pub mod Rows
