pub mod Totals
pub mod Counts
pub mod Calls
pub mod Walking
pub mod Arrays
pub mod CallLemmas
