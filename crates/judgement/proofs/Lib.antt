pub mod PartLaws
pub mod WidthLaws
pub mod Verdicts
