pub mod Versions
pub mod Reading
pub mod Gives
pub mod Text
pub mod Sound
pub mod Splitting
