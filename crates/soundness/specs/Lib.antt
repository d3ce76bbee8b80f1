pub mod LexedLaws
pub mod ShapeLaws
pub mod SignalLaws
pub mod PartLaws
pub mod JudgedLaws
pub mod ReadLaws
