pub mod MaskLaws
pub mod WhoLaws
pub mod Unique
pub mod Telling
