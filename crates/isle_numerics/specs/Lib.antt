pub mod NumericTypes
pub mod Operations
pub mod Table
pub mod Bits
pub mod Meaning
pub mod Conversions
pub mod Definitions
pub mod Flags
