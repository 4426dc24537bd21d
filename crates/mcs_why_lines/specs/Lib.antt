pub mod RowFields
pub mod Rows
pub mod Account
