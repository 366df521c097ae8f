pub mod SayLaws
pub mod KeepLaws
