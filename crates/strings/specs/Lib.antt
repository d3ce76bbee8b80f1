pub mod Machine
pub mod Decoded
