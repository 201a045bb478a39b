pub mod Units
pub mod Rows
pub mod Lookup
pub mod Paths
pub mod UnitLines
