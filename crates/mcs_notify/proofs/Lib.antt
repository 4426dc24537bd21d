pub mod Best
pub mod Kept
pub mod Lines
pub mod Times
mod Worked
