pub mod Written
pub mod Views
pub mod Spelling
pub mod Reading
