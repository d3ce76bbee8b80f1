pub mod Order
pub mod BeforeLaws
pub mod OrderLaws
pub mod ScanLaws
pub mod PassLaws
pub mod MoveLaws
