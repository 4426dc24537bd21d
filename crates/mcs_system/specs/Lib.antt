pub mod System
pub mod Names
pub mod WellFormed
pub mod Equality
pub mod stored
pub mod laws
