pub mod Allows
mod Changed
mod Firsts
mod Left
mod Marked
mod Numbers
mod Ours
mod Over
mod Readies
mod Taken
mod Whole
pub mod Named
