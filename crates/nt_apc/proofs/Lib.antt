pub mod Fewer
pub mod Firsts
pub mod Inserts
pub mod Least
pub mod Views
