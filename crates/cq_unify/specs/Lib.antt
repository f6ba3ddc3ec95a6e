pub mod Copied
pub mod Listing
pub mod Unified
pub mod Work
pub mod Standing
pub mod OrderWork
