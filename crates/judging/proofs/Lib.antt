-- What the proofs of several functions use.
pub mod RoomForNumbers
pub mod RoomForPath
