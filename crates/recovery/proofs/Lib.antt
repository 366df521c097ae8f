pub mod RecoveryLaws
pub mod Pieces
pub mod Journals
