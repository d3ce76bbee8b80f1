pub mod Lexemes
pub mod Lines
