pub mod Tests
pub mod Lists
pub mod Elements
pub mod Parts
pub mod Sums
pub mod Bytes
