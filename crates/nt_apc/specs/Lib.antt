pub mod Objects
pub mod Firsts
pub mod Runs
pub mod Laws
