pub mod Apart
pub mod Servers
pub mod Spacing
