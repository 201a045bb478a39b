pub mod Scope
pub mod Places
pub mod Log
pub mod Table
