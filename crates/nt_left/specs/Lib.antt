pub mod Lists
pub mod Causes
pub mod Walks
pub mod Items
pub mod Ending
pub mod Left
pub mod Lines
