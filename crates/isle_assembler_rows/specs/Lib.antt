pub mod Operands
pub mod Constructors
pub mod TermNames
pub mod AssemblerRow
pub mod AssemblerRows
pub mod Told
