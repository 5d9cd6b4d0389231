pub mod Template
pub mod Holds
