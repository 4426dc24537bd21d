pub mod Counts
pub mod Flow
pub mod Headline
pub mod NoSystem
pub mod Telling
pub mod stored
