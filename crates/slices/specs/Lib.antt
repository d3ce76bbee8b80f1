pub mod Slices
pub mod Bundles
