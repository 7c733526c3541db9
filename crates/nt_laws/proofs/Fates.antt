-- The fate of inserts.
pub mod Picks
pub mod Deliveries
pub mod Removals
pub mod Numbers
pub mod Agree
pub mod Waiting
pub mod Once
pub mod Apcs
pub mod Owners
