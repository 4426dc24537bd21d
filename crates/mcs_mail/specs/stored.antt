pub mod Numbers
pub mod Late
