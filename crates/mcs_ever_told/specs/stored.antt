pub mod Words
pub mod Told
pub mod Groups
pub mod Left
pub mod Looks
pub mod Kept
