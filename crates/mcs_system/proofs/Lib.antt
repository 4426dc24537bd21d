pub mod Distinct
pub mod Marks
pub mod Pairs
pub mod Linked
pub mod Least
mod Worked
pub mod InOrder
