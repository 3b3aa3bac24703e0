pub mod Described
pub mod Listings
pub mod Recital
pub mod Performing
