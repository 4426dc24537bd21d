pub mod Appended
pub mod Behind
mod Worked
