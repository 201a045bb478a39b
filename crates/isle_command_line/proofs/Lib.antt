pub mod WordLaws
pub mod RunWords
pub mod ReadValues
pub mod ChoiceLaws
pub mod Steps
pub mod Sound
pub mod Complete
pub mod LineLaws
