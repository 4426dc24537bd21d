pub mod Buckets
pub mod Percentile
pub mod Histogram
pub mod laws
pub mod stored
