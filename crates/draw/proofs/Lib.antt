-- the laws that the proofs of the functions cite; what is drawn of case A, and what the program's answer is for the whole files
pub mod BookDrawn
pub mod CaseA
pub mod WholeFiles
