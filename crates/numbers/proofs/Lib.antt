pub mod NumberLaws
pub mod OneByOne
