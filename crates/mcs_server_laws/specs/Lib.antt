pub mod Interrupts
pub mod Nesting
pub mod Exclusion
pub mod Accepted
pub mod Ceiling
