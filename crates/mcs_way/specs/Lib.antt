pub mod Trace
pub mod Course
pub mod Stances
pub mod Trail
pub mod Sought
pub mod Sums
pub mod laws
