pub mod BoolLaws
pub mod ChainLaws
pub mod LoopLaws
