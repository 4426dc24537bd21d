pub mod Rounds
pub mod Signals
pub mod Shares
pub mod Unused
pub mod Figures
pub mod Table
pub mod laws
