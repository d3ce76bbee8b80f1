pub mod Table
pub mod ClassLaws
pub mod RunLaws
pub mod NumberLaws
pub mod LineLaws
pub mod WordLaws
pub mod CodeLaws
