pub mod Kinds
pub mod Lines
pub mod Fields
pub mod Digits
