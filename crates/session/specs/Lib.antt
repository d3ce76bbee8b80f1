pub mod Called
pub mod CalledLaws
pub mod Steps
