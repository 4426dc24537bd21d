pub mod Home
pub mod Repeats
pub mod Marked
