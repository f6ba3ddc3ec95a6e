pub mod Held
pub mod Calls
pub mod Newest
pub mod Trying
