pub mod Now
pub mod NowLaws
