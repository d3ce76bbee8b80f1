pub mod Objects
pub mod Begins
pub mod OneLaws
pub mod Turns
