pub mod Fields
pub mod Levels
pub mod Text
pub mod Strict
pub mod Named
