pub mod Turns
pub mod StringLaws
mod Reached
pub mod Plain
