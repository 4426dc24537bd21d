pub mod Agreement
pub mod Schedules
pub mod Demand
pub mod Bandwidth
pub mod ByCore
pub mod Given
pub mod CoreTallies
