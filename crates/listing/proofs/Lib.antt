-- the laws that the proofs of the functions cite, what is shown of cases A and S, and that the number of choices is that of the choices
pub mod Exponents
pub mod TieTexts
pub mod ListingShort
pub mod LeadingRows
pub mod EachCounted
pub mod TiedOnce
pub mod ChoicesCounted
pub mod CaseA
pub mod CaseS
