pub mod Chosen
pub mod WordsLaws
pub mod PartsLaws
pub mod EntryLaws
