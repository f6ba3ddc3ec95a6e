pub mod Query
pub mod Outcome
pub mod Outside
pub mod Lines
pub mod Generated
pub mod Endings
pub mod Causes
pub mod Limits
