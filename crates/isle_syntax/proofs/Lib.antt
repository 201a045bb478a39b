pub mod PassedSteps
pub mod TypeSteps
pub mod DefinitionSteps
