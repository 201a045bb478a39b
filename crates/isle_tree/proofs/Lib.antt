pub mod Sees
pub mod Apart
pub mod FindCallees
pub mod FindTerms
pub mod FindHeads
