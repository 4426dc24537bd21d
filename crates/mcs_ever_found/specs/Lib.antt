pub mod Course
pub mod Later
pub mod Recurs
pub mod Doings
pub mod Period
pub mod Tests
pub mod stored
pub mod laws
