pub mod Cuts
pub mod Graph
pub mod Depths
pub mod Known
pub mod Path
pub mod Laws
