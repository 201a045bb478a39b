pub mod Directory
pub mod Sinks
pub mod Reading
pub mod Failures
pub mod Memory
pub mod Machine
