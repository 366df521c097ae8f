pub mod Examples
pub mod PageLaws
pub mod RoomLaws
