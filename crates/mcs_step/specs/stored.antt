pub mod Places
pub mod Cores
