pub mod FindItems
pub mod NumberedFields
pub mod PlacesAt
pub mod NamesAt
pub mod PlacedStatements
pub mod ToldLaws
