pub mod GeneratedFiles
pub mod UnitSource
pub mod Built
pub mod Parts
