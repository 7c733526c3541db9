pub mod Laws
pub mod First
pub mod Falling
pub mod SomeFrame
