pub mod Entry
pub mod Stream
