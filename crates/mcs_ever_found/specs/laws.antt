pub mod Repeats
pub mod Never
pub mod GoOn
pub mod Course
