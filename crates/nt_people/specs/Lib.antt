pub mod Near
pub mod Messages
pub mod Titles
