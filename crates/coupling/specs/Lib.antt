pub mod Some
pub mod Layout
pub mod KeyDesk
pub mod Board
pub mod Making
pub mod Sending
pub mod Fitting
