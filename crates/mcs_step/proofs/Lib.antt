pub mod Soon
pub mod Settled
pub mod Rows
pub mod Still
pub mod Moved
pub mod Turned
pub mod Opened
pub mod Counted
pub mod Stepping
pub mod Passing
pub mod Groups
mod Worked
