pub mod Words
pub mod Layout
pub mod Parts
pub mod Numbers
