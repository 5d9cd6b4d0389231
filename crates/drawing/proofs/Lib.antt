-- the laws that the proofs of the functions cite
pub mod ConditionMet
pub mod MovesInTurn
pub mod DrawingShort
pub mod DrawingReads
