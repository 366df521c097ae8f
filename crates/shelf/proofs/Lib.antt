pub mod FrameLaws
pub mod ShowFrame
pub mod SlotLaws
pub mod SweepLaws
pub mod ShowLaws
pub mod AllLaws
pub mod ShownLaws
pub mod StableLaws
mod ShelfCode
