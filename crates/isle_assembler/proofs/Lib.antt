pub mod Appended
pub mod TextLaws
pub mod WordLaws
pub mod TypeWords
pub mod HeadWritable
pub mod RulesWritable
pub mod RulesSpelt
