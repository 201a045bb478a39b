pub mod DeclaredTypes
pub mod Types
pub mod AskedViews
pub mod Signatures
pub mod SignatureViews
pub mod Told
pub mod ToldViews
pub mod Places
