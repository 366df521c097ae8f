pub mod Everybody
pub mod Listing
