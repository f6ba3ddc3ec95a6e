pub mod Reach
pub mod Parts
pub mod Copies
pub mod Alike
pub mod Samples
