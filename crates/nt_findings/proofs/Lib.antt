pub mod Finishing
pub mod Fitting
pub mod Knowing
pub mod Showing
pub mod Opened
pub mod Saying
pub mod Joining
