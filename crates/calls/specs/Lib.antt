pub mod Calls
pub mod Steps
pub mod StepLaws
pub mod ChainLaws
pub mod SessionLaws
pub mod EncodedLaws
