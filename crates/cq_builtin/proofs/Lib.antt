pub mod Shown
pub mod Over
