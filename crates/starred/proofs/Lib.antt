pub mod CaseA
pub mod EveryRow
pub mod EveryExample
mod EveryRun
pub mod EveryDesk
pub mod EveryFace
pub mod EveryJoin
