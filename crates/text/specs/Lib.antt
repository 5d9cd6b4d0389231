pub mod Rows
pub mod Text
