-- the laws that proofs cite: what was appended, and loops that append
pub mod Appended
pub mod Appending
