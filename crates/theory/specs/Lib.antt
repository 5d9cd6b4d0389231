pub mod Lists
pub mod Masks
pub mod Graph
pub mod Search
pub mod Annotation
