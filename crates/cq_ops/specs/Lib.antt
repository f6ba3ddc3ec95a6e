pub mod Code
pub mod Tables
pub mod Faults
