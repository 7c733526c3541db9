pub mod Walks
pub mod Told
pub mod Courses
pub mod InterruptLines
pub mod ThreadLines
pub mod TimerLines
