-- the laws that the proofs of the functions cite, and what the program's answer is for the whole files
pub mod ZerosBehind
pub mod AnnotatedBuffer
pub mod RunRead
pub mod WholeFiles
