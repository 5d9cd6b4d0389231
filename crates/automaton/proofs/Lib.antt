-- What the proofs of several functions use, and laws for callers.
pub mod Edges
pub mod EdgesOfArrays
