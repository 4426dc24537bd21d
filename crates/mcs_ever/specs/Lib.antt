pub mod Later
pub mod Recurs
pub mod Marks
pub mod Closed
pub mod stored
pub mod laws
