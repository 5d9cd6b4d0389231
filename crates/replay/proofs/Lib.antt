-- The laws that the proofs of the functions cite, and laws for callers.
pub mod StepsInTurn
pub mod StructIsVertex
pub mod RunShort
pub mod LassoReplayed
pub mod CaseA
