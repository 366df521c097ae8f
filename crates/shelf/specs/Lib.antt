pub mod Show
pub mod Asks
