pub mod Struct
pub mod Steps
