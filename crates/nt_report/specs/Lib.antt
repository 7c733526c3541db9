pub mod Words
pub mod Fields
pub mod Events
pub mod Walked
pub mod Reading
pub mod LineInputs
