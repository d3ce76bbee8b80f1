mod PutLaws
mod Stored
mod StepLaws
pub mod PastLaws
