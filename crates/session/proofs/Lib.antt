mod RenameLaws
pub mod HoldLaws
pub mod OpenLaws
pub mod CallLaws
