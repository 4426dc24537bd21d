mod Greatest
pub mod Kept
pub mod Lines
pub mod Listed
pub mod Marks
pub mod Queues
pub mod Times
mod Worked
