pub mod Configs
pub mod Contexts
pub mod Helds
mod Lists
pub mod Shown
mod Worked
