pub mod Store
pub mod Padded
pub mod Row
pub mod Flat
