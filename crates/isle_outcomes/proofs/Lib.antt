pub mod SeesValues
pub mod FieldsApart
