-- the laws that the proofs of the functions cite
pub mod FoundBuffers
pub mod WholeFile
pub mod PrintedA
