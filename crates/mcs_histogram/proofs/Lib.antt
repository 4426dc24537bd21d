pub mod Buckets
pub mod Lists
pub mod Counts
pub mod Percentiles
pub mod Histograms
pub mod Ranks
pub mod Worked
