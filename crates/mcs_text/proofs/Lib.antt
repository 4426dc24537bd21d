mod Behind
pub mod Worked
pub mod Givens
pub mod Places
pub mod Parts
pub mod Moments
