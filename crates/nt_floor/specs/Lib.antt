pub mod Lists
pub mod Views
pub mod Sums
pub mod Seen
