pub mod Changes
pub mod Agree
pub mod Insides
