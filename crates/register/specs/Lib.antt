pub mod Answers
pub mod Table
pub mod Checks
pub mod Calls
pub mod Promises
