pub mod Frame
pub mod Promises
pub mod Stretch
pub mod Taken
