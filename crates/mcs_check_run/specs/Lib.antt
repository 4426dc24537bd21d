pub mod Names
pub mod Allowed
pub mod Fault
pub mod Lines
pub mod Progress
