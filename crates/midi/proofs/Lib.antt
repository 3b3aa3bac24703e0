-- The lemmas of the crate.
pub mod Lines
pub mod Notes
pub mod StatusBytes
pub mod RunningStatus
pub mod OneReading
pub mod Ranges
pub mod States
