pub mod Counts
pub mod Bytes
pub mod Calls
pub mod Files
pub mod Memory
pub mod Whole
pub mod Counted
