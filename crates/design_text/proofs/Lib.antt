pub mod Loops
pub mod NowLaws
pub mod Passes
pub mod Processes
pub mod Named
pub mod Modules
pub mod Text
