pub mod Settles
pub mod Pages
