pub mod Blocks
pub mod BlockLaws
pub mod LineLaws
pub mod Passes
pub mod StatementLaws
pub mod PassLaws
pub mod WireLaws
pub mod StandLaws
