pub mod ToldLaws
pub mod Room
pub mod CallLaws
