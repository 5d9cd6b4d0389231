pub mod Demands
pub mod ReadSheet
