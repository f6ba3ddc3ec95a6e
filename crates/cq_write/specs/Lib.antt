pub mod Meaning
pub mod Spelled
pub mod Work
pub mod Looks
pub mod Naming
pub mod Settings
