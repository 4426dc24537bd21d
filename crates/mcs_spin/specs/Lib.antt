pub mod Spun
pub mod laws
