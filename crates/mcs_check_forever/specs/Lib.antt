pub mod Verdict
pub mod Foretold
pub mod ForeverFault
pub mod laws
