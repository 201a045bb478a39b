pub mod HaveTypes
mod HeldNumbers
mod VariantPart
mod FindFields
mod AtTypes
mod InFields
mod FindTypes
mod FindConstants
mod AskedTerms
mod Counted
mod Rest
mod FirstNamed
mod FormSteps
pub mod KindPlaces
