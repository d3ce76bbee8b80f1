pub mod Codes
mod HeldLaws
pub mod Parses
mod CutLaws
mod SliceLaws
mod AnswerLaws
mod BundleLaws
