pub mod WireBits
pub mod LongestRuns
pub mod SameFiles
pub mod Again
