pub mod Leads
pub mod Limits
pub mod Machines
pub mod Witnesses
