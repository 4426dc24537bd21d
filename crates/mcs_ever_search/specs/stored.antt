pub mod Lockstep
pub mod Seen
pub mod Kept
