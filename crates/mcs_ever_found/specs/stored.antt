pub mod Places
pub mod Flags
pub mod Endless
