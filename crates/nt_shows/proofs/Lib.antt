pub mod Telling
pub mod Begun
pub mod Together
pub mod Left
