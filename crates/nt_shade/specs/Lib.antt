pub mod Asks
pub mod Threads
pub mod Frames
pub mod Cpus
pub mod Shade
pub mod Same
