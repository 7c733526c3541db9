pub mod Close
