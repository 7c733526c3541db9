pub mod Briefs
pub mod Recorded
pub mod RecorderInsides
pub mod Kept
pub mod Values
