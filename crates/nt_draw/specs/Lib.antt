pub mod Escapes
pub mod Tags
