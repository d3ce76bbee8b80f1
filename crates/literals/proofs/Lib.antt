pub mod Stored
pub mod CodeLaws
