pub mod Insides
pub mod Marks
pub mod Sound
