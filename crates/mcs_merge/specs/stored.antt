pub mod Heads
pub mod Queue
pub mod Parts
pub mod Sweep
