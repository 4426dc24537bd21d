pub mod Joins
pub mod Merges
pub mod Pushes
pub mod Trees
pub mod Passing
pub mod Kept
pub mod Helds
pub mod Parts
pub mod Nexts
pub mod Sweeps
pub mod Sweeping
pub mod Pouring
pub mod Rows
pub mod Adds
pub mod Pours
pub mod Calls
mod Worked
