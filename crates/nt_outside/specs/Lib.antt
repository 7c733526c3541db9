pub mod Counts
pub mod Bytes
pub mod Calls
pub mod MemorySource
pub mod MemorySink
pub mod Streams
pub mod Sides
