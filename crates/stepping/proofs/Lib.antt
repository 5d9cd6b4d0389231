-- What the proofs of several functions use, and what is proved of the words.
pub mod LinesShort
pub mod WordsHeard
