pub mod PlaceLaws
pub mod Tables
