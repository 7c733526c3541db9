pub mod Tells
pub mod Standing
