pub mod Rows
pub mod Offered
pub mod Terms
pub mod Over
pub mod Functors
