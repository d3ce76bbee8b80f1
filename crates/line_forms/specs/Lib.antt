pub mod Words
pub mod Forms
pub mod Processes
