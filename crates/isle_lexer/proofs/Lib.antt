pub mod Scans
pub mod Begun
pub mod Coming
pub mod Lines
pub mod Boundaries
pub mod Digits
pub mod Wrapped
pub mod CommentPlaces
