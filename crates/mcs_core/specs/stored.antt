pub mod Room
pub mod Items
pub mod Sound
pub mod Parts
pub mod Contexts
pub mod Ends
pub mod Places
