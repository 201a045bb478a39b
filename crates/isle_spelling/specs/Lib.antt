pub mod Identifier
pub mod Names
pub mod Literal
pub mod Raw
pub mod Fixed
