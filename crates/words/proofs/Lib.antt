-- the laws that the proofs of the functions and of the programs cite
pub mod WordLaws
