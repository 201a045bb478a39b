pub mod TypeItems
pub mod LawfulNames
pub mod NameSet
pub mod Claims
pub mod Functions
pub mod Judges
pub mod NameFault
pub mod Words
