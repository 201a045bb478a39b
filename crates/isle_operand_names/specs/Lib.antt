pub mod Names
pub mod Occurring
pub mod Sets
