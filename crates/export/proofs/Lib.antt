-- What the proof of a function uses, and what the contracts say of a C caller's desk.
mod RunLaws
pub mod DeskBytes
