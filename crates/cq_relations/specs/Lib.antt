pub mod Faults
pub mod Goals
