pub mod SendFrame
pub mod FourLaws
pub mod SentLaws
pub mod TookLaws
mod SendCode
