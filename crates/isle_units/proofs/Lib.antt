pub mod PathLaws
pub mod LookupLaws
pub mod UnitLaws
pub mod FolderLaws
