pub mod Ranges
pub mod Ended
pub mod Kept
pub mod Quiet
pub mod Rows
pub mod Exact
pub mod Runs
pub mod Worked
