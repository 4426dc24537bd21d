pub mod Buckets
pub mod Percentiles
