pub mod LengthLaws
pub mod CardLaws
pub mod Theorems
pub mod Examples
pub mod Unique
