-- What the proofs of several functions use, and laws for callers.
mod SumLaws
pub mod StackLaws
mod NumberAtVertex
pub mod TableGraph
mod RelaxStep
mod PendingVertices
mod ValidTestLaws
