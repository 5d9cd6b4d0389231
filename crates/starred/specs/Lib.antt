pub mod Table
pub mod Examples
pub mod Runs
pub mod Desks
pub mod Faces
pub mod Joins
