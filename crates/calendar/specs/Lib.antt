pub mod Dates
pub mod Next
pub mod Promises
