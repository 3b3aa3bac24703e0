pub mod ChestFault
pub mod Places
pub mod Reaches
pub mod Positions
pub mod Setting
pub mod Meaning
pub mod Calls
pub mod Walks
