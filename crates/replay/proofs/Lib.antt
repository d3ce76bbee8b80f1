pub mod LineLaws
pub mod BeginLaws
pub mod TurnLaws
pub mod PlaceLaws
pub mod LoopLaws
