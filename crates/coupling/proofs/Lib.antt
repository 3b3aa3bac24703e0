pub mod Some
pub mod Tables
pub mod Boards
pub mod Desks
pub mod Fits
