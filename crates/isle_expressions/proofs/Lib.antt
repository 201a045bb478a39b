pub mod WordSteps
pub mod Constants
pub mod PatternSteps
pub mod ExpressionSteps
pub mod FormSteps
pub mod TailSteps
