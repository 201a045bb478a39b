pub mod Wraps
pub mod Literals
pub mod Prints
pub mod Raws
