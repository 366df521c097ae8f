pub mod SomeLaws
pub mod BitLaws
pub mod TableLaws
pub mod Closing
