pub mod Unshown
