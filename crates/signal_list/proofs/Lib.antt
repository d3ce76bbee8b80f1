mod Faults
pub mod Pieces
mod SumLaws
mod ReadLaws
