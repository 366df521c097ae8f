pub mod Number
pub mod Grammar
pub mod Reading
pub mod Printing
pub mod Answers
