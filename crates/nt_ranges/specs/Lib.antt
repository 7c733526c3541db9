pub mod Looks
pub mod Statuses
pub mod Plain
pub mod Cuts
pub mod Spinners
pub mod Sizes
