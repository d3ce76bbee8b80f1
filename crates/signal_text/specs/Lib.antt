pub mod Pieces
pub mod CutLaws
pub mod Runs
pub mod RunLaws
