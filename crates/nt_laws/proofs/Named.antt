-- What the events of a run name.
pub mod Settings
pub mod Asked
pub mod Inserted
pub mod EventsFit
pub mod RunFits
pub mod Objects
