pub mod Escapes
pub mod Sheets
