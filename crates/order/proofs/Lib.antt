pub mod VectorLaws
mod OrderForm
mod OrderCode
pub mod OrderLaws
pub mod OrderPadded
pub mod RecordLaws
pub mod OrderCases
pub mod Unique
