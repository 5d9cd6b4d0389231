-- the laws that the proofs of the functions cite
pub mod RowTexts
pub mod RowsShort
pub mod GreatestNumber
pub mod TextShort
pub mod TextReads
