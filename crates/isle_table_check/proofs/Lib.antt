pub mod TableLaws
pub mod ProgramTables
