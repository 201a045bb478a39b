pub mod NamesJoin
pub mod SetNames
