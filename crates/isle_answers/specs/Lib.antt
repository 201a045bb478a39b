pub mod Form
pub mod Words
pub mod Views
pub mod Spelling
pub mod Reading
pub mod HeadViews
pub mod Places
