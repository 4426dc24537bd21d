pub mod Ranges
pub mod Arrivals
pub mod Boxes
pub mod Stretches
pub mod Inboxes
pub mod Joins
pub mod News
pub mod Deliveries
pub mod Reaches
pub mod Idle
pub mod Merging
pub mod Leading
pub mod Safe
pub mod Later
pub mod Openings
pub mod Apart
mod WorkedIdle
mod WorkedOrders
