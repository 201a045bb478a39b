pub mod MarkLaws
pub mod ReachLaws
pub mod PlaceLaws
pub mod IsaLaws
pub mod GroupLaws
pub mod SizeLaws
pub mod LineLaws
