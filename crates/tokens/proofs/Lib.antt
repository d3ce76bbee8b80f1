pub mod TokenLaws
pub mod Words
