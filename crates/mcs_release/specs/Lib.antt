pub mod Release
pub mod stored
