pub mod Judged
pub mod RoomLaws
pub mod NowLaws
pub mod TakenLaws
pub mod LiesLaws
pub mod JudgedLaws
pub mod Search
