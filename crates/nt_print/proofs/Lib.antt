mod Lent
mod CutRows
mod Counted
mod Fates
mod Past
mod WaitRows
mod Spinning
mod Tallied
pub mod Turns
mod Whole
pub mod OneEvent
pub mod OneReport
mod SpinRows
mod Blocks
mod Passed
mod Versions
mod FieldsPut
