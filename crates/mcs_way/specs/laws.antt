pub mod Legs
pub mod Ways
