pub mod Steps
pub mod Places
pub mod Texts
pub mod Each
pub mod Members
pub mod Items
pub mod Passed
pub mod Pairs
pub mod Bare
pub mod Shapes
pub mod Calls
pub mod Scripts
pub mod Ready
pub mod InOrder
pub mod WellFormed
mod OnLiterals
mod Worked
