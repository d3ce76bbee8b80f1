pub mod Parts
pub mod Kept
pub mod Judged
