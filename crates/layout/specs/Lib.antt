pub mod Put
pub mod PartLaws
pub mod SignalLaws
pub mod RoomLaws
pub mod Stored
