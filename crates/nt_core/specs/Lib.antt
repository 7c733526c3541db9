pub mod States
pub mod Insides
pub mod Replays
pub mod Refusals
pub mod Laws
