pub mod ReadingViews
pub mod Skipping
