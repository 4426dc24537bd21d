mod Sets
mod Worked
mod WorkedForEver
pub mod Numbers
pub mod Places
pub mod Counted
pub mod Unended
pub mod Settling
pub mod Since
pub mod Telling
pub mod Keeping
pub mod Growing
pub mod Counting
pub mod Reaching
pub mod ForEver
