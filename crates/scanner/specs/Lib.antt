pub mod Class
pub mod Runs
pub mod Lines
pub mod Words
pub mod Numbers
