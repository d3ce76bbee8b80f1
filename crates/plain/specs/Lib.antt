pub mod Put
pub mod Taken
pub mod FormLaws
