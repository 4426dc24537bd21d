pub mod Ready
pub mod stored
