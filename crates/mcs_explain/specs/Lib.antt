pub mod Asked
pub mod Why
pub mod Explained
pub mod WhyFault
pub mod stored
