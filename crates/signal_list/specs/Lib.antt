pub mod Lists
pub mod Sums
pub mod Reads
pub mod ListLaws
