pub mod Places
pub mod RuleFile
pub mod Display
pub mod Visits
pub mod Emission
pub mod RustText
pub mod Generated
pub mod Pieces
