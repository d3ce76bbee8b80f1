pub mod Options
pub mod Lines
pub mod LineLaws
