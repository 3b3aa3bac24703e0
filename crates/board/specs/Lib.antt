pub mod Among
pub mod Outlets
pub mod Waiting
pub mod Swing
pub mod Wiring
pub mod Counts
pub mod Ways
pub mod Relay
