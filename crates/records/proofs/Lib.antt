pub mod Joins
pub mod Listings
pub mod Parts
pub mod Places
pub mod Tunings
