-- What the proofs of several functions use.
mod SetAside
mod Candidate
mod Lasso
