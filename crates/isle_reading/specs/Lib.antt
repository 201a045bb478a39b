pub mod Reader
pub mod Combinators
pub mod Names
pub mod Nesting
pub mod Relations
pub mod Places
pub mod Views
