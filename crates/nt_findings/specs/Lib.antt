pub mod Known
pub mod Verdicts
pub mod Spoken
pub mod Ways
pub mod Questions
