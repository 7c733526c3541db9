pub mod Counts
pub mod Locality
pub mod Deliveries
pub mod Fates
pub mod Named
pub mod Objects
pub mod Locks
