pub mod Schedules
pub mod Reading
pub mod Taking
