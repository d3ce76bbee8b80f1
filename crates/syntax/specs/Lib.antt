pub mod Statements
pub mod SignalLaws
