-- What contracts of the crate cite.
pub mod Reading
pub mod StatusBytes
pub mod RunningStatus
pub mod OneReading
pub mod Ranges
pub mod Reader
pub mod State
