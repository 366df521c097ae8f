pub mod RangeLaws
pub mod FitLaws
pub mod Examples
