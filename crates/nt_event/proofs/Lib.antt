pub mod Tables
pub mod Moves
pub mod Options
pub mod Elements
pub mod Ready
pub mod Booleans
pub mod Reversed
pub mod Written
