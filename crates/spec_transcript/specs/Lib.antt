pub mod Causes
pub mod Operands
pub mod Samples
pub mod Settlings
pub mod Questions
pub mod Due
pub mod Purposes
pub mod Session
