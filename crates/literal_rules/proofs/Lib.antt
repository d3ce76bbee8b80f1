pub mod ReadLaws
pub mod SignalLaws
