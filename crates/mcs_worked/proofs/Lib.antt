pub mod Schedules
mod Contexts
mod Turns
mod Orders
mod Handlers
mod Random
pub mod Busy
mod OneList
pub mod EverFindings
mod EverFlags
mod EverGoOn
