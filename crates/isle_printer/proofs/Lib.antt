pub mod Bytes
pub mod Numerals
pub mod Readback
pub mod Scans
pub mod After
pub mod Quotes
pub mod Comments
