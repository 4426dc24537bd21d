pub mod Together
pub mod Compared
pub mod Sampling
pub mod Repeats
pub mod stored
