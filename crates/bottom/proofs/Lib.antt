pub mod Bytes
pub mod Tables
pub mod Counted
pub mod Kept
pub mod Pending
pub mod CatchUpLemmas
pub mod Receiver
pub mod Notes
pub mod BufferNumber
pub mod Runs
mod HeardNotes
