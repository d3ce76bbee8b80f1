pub mod Written
pub mod Reaches
