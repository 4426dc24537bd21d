pub mod Alone
pub mod Counts
pub mod Looks
pub mod Runs
