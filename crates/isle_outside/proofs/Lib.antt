pub mod TakeLaws
pub mod ReadLaws
pub mod NameLaws
pub mod WriteLaws
pub mod PlaceLaws
