pub mod Shades
pub mod Changed
pub mod Keys
pub mod Timers
pub mod Shade
pub mod Same
