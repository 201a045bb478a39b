pub mod ValueLaws
pub mod Lists
pub mod Spelt
pub mod Sees
pub mod ValueSteps
