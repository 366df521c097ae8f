pub mod Record
pub mod Journal
pub mod Recording
pub mod Worked
