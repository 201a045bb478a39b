pub mod PassedOver
pub mod Grammar
pub mod Reading
pub mod Spelling
