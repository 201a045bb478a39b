pub mod Functions
pub mod Ending
