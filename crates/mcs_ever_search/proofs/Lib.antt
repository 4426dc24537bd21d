pub mod Standing
pub mod Turning
mod WorkedTurns
pub mod Seeing
pub mod Going
pub mod Ending
pub mod Keeping
pub mod Stepping
pub mod Telling
pub mod Resting
pub mod Images
mod WorkedSearch
