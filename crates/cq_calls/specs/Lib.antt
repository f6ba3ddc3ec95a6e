pub mod Matching
pub mod Calling
pub mod Trying
