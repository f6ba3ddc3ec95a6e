pub mod Bounded
pub mod Sound
pub mod Existing
pub mod Own
