pub mod SupportedTables
pub mod ProgramTables
