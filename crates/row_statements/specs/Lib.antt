pub mod Parts
pub mod Reads
