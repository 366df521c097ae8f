pub mod Reaches
pub mod ListingWho
