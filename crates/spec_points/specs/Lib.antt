pub mod Bounds
pub mod Points
pub mod Conditions
pub mod Lines
pub mod Moments
pub mod Between
pub mod Samples
