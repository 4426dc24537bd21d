pub mod Closing
pub mod Earliest
pub mod Entered
pub mod Moving
pub mod Order
pub mod Stored
pub mod Times
pub mod Tree
pub mod Kept
mod Worked
