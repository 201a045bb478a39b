pub mod UnitFiles
pub mod Made
