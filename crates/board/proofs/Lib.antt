pub mod Sums
pub mod Swings
pub mod Among
pub mod Counting
pub mod Indexes
pub mod Standing
pub mod Made
