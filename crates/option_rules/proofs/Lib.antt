pub mod Numbers
pub mod Ports
pub mod Meaning
