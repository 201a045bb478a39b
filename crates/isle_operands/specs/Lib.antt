pub mod Contexts
pub mod BindingTypes
pub mod ConstTypes
pub mod Typed
pub mod Forms
pub mod Views
