-- the laws that proofs cite: numbers in decimal, words for the bits of masks, templates
pub mod DecimalLaws
pub mod WordsInTurn
pub mod Holes
pub mod FilledShort
