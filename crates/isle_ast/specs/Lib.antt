pub mod Tree
pub mod Views
pub mod Positions
