pub mod Tests
pub mod Dates
pub mod Nesting
pub mod Calm
pub mod Exclusion
pub mod Holders
pub mod Rows
pub mod Interrupts
pub mod Schedules
pub mod Accepted
pub mod Ceiling
pub mod Calls
mod Worked
