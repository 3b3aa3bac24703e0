pub mod BoardFault
pub mod Wires
pub mod Wired
pub mod Fitting
pub mod Laws
pub mod NewBoard
pub mod Offered
pub mod FirstFault
