pub mod RecorderLaws
pub mod Unique
