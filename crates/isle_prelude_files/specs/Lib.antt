pub mod Outputs
pub mod PreludeFiles
pub mod Made
