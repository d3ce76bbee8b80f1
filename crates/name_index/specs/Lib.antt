pub mod Index
pub mod HashLaws
pub mod IndexLaws
pub mod LaidLaws
pub mod LineLaws
