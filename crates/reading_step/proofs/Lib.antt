mod LineLaws
pub mod StepLaws
