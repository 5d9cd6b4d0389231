-- the laws that the proofs of the functions, and of the search, cite
pub mod Leaders
pub mod MatchingEntries
pub mod Unpacked
pub mod Entries
pub mod SetGroup
pub mod Groups
pub mod KindValues
pub mod TablesOfArrays
pub mod LeadersOfArrays
pub mod FollowersBack
