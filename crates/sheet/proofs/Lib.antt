-- the laws that the proofs of the functions cite
pub mod RefusalTests
pub mod Marks
pub mod OwnedOutputs
pub mod ComposedStates
pub mod OneProcessMore
pub mod ReadingOn
pub mod ReadingEdges
pub mod AnswersOfReading
