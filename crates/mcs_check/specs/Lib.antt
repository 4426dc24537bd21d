pub mod Judged
pub mod Check
pub mod stored
