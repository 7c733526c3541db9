pub mod Objects
pub mod Queues
pub mod Changes
pub mod Laws
