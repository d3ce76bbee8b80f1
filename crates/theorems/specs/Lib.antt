pub mod StandingLaws
pub mod DamagedMemory
pub mod WireBits
pub mod ReadingBack
pub mod OneText
pub mod SameBytes
pub mod LongestRuns
pub mod OneRename
