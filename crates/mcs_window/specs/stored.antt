pub mod Cores
pub mod Views
pub mod Opening
pub mod Delivery
pub mod Reaches
pub mod Slots
pub mod Rounds
pub mod Outcomes
