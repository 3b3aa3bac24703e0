pub mod Sums
pub mod Ways
pub mod Images
pub mod Shown
pub mod Offered
pub mod FirstFault
mod NewBoard
pub mod Fits
