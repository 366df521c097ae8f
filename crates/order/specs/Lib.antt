pub mod Vector
pub mod Order
pub mod Record
