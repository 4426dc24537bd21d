pub mod Active
pub mod Answered
pub mod Counted
pub mod Having
pub mod Kept
pub mod Leading
pub mod Legs
pub mod Nexts
pub mod Parts
pub mod Standings
mod Worked
