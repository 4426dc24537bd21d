pub mod Sets
pub mod Later
pub mod stored
