pub mod KindLaws
pub mod PlaceLaws
pub mod SizeLaws
