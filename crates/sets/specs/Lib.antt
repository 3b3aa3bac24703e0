pub mod Numbers
pub mod NumberSet
