pub mod Requests
pub mod Local
pub mod Own
