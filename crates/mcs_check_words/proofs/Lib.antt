mod Cases
pub mod Lines
pub mod Refusals
