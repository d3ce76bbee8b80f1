pub mod Asked
pub mod FirstLaws
pub mod Accepted
