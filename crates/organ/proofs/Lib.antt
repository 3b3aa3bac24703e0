mod Asked
mod Passes
mod Fitters
mod Runs
mod Stacks
mod Filling
mod Organs
pub mod Answering
mod RefusedLines
mod ListingLines
mod Paths
