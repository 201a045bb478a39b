pub mod Words
pub mod Pieces
pub mod Grammar
pub mod Resolved
pub mod FormatNames
pub mod Spelling
pub mod Places
pub mod Reading
