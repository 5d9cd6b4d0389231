-- What the proofs of several functions use, and what is proved of the program.
mod BothFiles
pub mod WholeFiles
