pub mod ZeroLaws
