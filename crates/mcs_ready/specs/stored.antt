pub mod Lines
pub mod Priorities
