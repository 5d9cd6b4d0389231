pub mod Leaders
pub mod Unpack
pub mod Groups
pub mod Tables
