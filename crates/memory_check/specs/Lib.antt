pub mod Renamed
pub mod Held
pub mod AllowedLaws
pub mod RenameLaws
pub mod HeldLaws
pub mod OneLaws
