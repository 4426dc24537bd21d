pub mod Places
pub mod CoreTally
