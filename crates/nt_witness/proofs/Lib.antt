pub mod Counts
pub mod Leading
pub mod Robins
pub mod Cuts
pub mod Limiting
pub mod Ended
pub mod RowLeads
