mod StepLaws
pub mod PartLaws
mod FoundLaws
pub mod ShowLaws
