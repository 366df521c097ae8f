pub mod DigitLaws
pub mod NumberLaws
pub mod ReadingLaws
pub mod LineLaws
pub mod SpellingLaws
pub mod OneSpelling
pub mod GrammarLaws
pub mod Theorems
pub mod PrintLaws
mod Examples
