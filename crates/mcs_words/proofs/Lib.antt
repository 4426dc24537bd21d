pub mod Cases
pub mod Chain
pub mod Defaults
pub mod Lines
pub mod Parsed
pub mod Read
pub mod Refusals
