pub mod Waits
pub mod Spans
pub mod Running
pub mod Search
pub mod Account
pub mod laws
