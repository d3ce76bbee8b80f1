pub mod ByClass
pub mod Steps
pub mod Prefix
pub mod Reached
