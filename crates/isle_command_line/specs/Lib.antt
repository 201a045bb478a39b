pub mod Words
pub mod Targets
pub mod Request
pub mod Lines
pub mod Known
pub mod Reading
pub mod Views
