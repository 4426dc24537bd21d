pub mod Equal
pub mod Numbers
pub mod Parts
pub mod Steps
mod Worked
