pub mod Kinds
pub mod KindLaws
pub mod Signed
pub mod SignedLaws
