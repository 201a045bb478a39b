pub mod Among
pub mod TermPrefix
