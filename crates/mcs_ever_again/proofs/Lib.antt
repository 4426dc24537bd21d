pub mod Told
pub mod RefillDates
pub mod Contexts
pub mod Releases
pub mod Rounds
pub mod Cores
pub mod WorkedImages
pub mod Telling
pub mod Clock
pub mod Seen
pub mod Grouped
mod WorkedSignals
pub mod SourceDates
pub mod Again
pub mod Marking
pub mod Rows
pub mod Recurring
pub mod Schedule
