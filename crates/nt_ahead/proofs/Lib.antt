pub mod Chosen
pub mod Plain
pub mod Values
pub mod Filled
pub mod Taken
pub mod Listed
pub mod Like
