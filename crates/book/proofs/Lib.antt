-- the laws that the proofs of the functions cite
pub mod OneSlotMore
pub mod ReadingAnswers
pub mod PartWithin
pub mod BookGivesChoice
