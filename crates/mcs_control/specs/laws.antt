pub mod Contexts
pub mod Shown
