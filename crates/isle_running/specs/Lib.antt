pub mod Named
pub mod RunViews
pub mod Locals
pub mod Sources
pub mod Called
pub mod Frames
pub mod Steps
