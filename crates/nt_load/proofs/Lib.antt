pub mod Numbers
pub mod Tables
pub mod Spelled
pub mod Fitting
pub mod Differing
pub mod Soundness
