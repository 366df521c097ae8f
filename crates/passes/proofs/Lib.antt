pub mod LogLaws
pub mod WordLaws
pub mod Resting
pub mod Passing
pub mod Registers
pub mod Carried
