pub mod Token
pub mod Glue
pub mod Bytes
pub mod Number
pub mod Quote
pub mod Comment
