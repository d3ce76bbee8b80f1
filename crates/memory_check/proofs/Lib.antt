pub mod RenameTurns
pub mod MemoryLaws
