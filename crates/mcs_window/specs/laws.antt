pub use Rattle.mcs_stretch.specs.laws.Merging
pub mod Steps
pub use Rattle.mcs_stretch.specs.laws.Orders
pub use Rattle.mcs_stretch.specs.laws.BySignals
pub mod Calls
pub mod Moves
