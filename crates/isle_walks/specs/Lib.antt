pub mod Parts
pub mod Sound
pub mod Walks
pub mod Ways
