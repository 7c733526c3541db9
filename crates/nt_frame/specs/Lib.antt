pub mod Calls
pub mod Changes
pub mod EventCalls
pub mod HeldLocks
pub mod Nesting
pub mod Rules
pub mod Views
