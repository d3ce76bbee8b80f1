pub mod Indexes
pub mod IndexesLaws
