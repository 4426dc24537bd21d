pub mod Ticks
pub mod Ranges
pub mod Accounts
pub mod Sums
pub mod Spans
pub mod Rows
pub mod Worked
