pub mod Later
pub mod Recurs
pub mod Sets
pub mod Told
pub mod laws
pub mod stored
