pub mod Rows
pub mod RowLaws
pub mod Found
pub mod FoundLaws
