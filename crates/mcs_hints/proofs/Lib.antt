pub mod Numbers
pub mod Marks
pub mod Bounds
pub mod Taken
pub mod Grants
mod Digits
pub mod Settled
pub mod Worked
