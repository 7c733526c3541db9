pub mod Settling
pub mod Taking
pub mod Drawn
