pub mod Cutting
pub mod Knowing
pub mod Walking
pub mod Going
