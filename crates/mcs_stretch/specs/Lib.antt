pub mod Inbox
pub mod Stretch
pub mod Safe
pub mod ByScripts
pub mod Idle
pub mod laws
