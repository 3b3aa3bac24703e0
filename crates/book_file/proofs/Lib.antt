pub mod FirstBytes
pub mod Reasons
