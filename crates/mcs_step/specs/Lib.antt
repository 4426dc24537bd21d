pub mod Steps
pub mod stored
