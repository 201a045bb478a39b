pub mod PathAt
pub mod BindingReferences
pub mod TypeSteps
pub mod InPlace
pub mod FieldPlaces
