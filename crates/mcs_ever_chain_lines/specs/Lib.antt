pub mod Lines
pub mod stored
