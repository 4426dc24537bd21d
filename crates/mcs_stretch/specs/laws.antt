pub mod Merging
pub mod Orders
pub mod BySignals
