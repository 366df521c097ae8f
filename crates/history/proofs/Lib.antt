pub mod ReadLaws
pub mod Accepted
pub mod StreamLaws
pub mod Whole
