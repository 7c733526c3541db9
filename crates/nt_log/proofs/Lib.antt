pub mod OneRow
pub mod OneSchedule
pub mod Looks
pub mod TurnRows
pub mod Both
pub mod Contract
