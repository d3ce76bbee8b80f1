pub mod Place
pub mod Sizes
pub mod Offsets
pub mod Forms
