mod ShapeLaws
pub mod Verdicts
mod Objects
mod Bits
mod Connections
mod Lines
mod Steps
