pub mod Values
mod Words
mod Threads
mod Behind
mod Worked
mod Figured
pub mod Judged
mod ChainsWorked
