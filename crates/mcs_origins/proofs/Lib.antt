pub mod Joins
pub mod Left
pub mod Lists
pub mod Places
pub mod Runs
pub mod Shifted
pub mod Tops
mod Worked
