-- What the proofs of several functions use.
pub mod PlaceByPlace
pub mod DeskFaults
pub mod TablesStepped
