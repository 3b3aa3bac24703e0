pub mod Organ
pub mod Playing
pub mod Worked
pub mod SecondOrgan
pub mod Recitals
pub mod Refusals
