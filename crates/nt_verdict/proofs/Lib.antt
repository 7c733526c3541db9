pub mod Events
pub mod States
pub mod Verdicts
pub mod Row
pub mod Rounds
