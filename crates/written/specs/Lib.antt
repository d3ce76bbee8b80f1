pub mod Runs
pub mod NumberLaws
pub mod StringLaws
pub mod TokenLaws
pub mod LineLaws
pub mod WrittenLaws
pub mod OutcomeLaws
pub mod TextLaws
