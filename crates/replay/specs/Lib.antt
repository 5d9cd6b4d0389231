pub mod Run
pub mod Struct
