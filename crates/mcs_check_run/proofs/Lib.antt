mod Named
pub mod Results
pub mod Rows
