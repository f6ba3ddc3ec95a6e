pub mod Names
pub mod Slots
pub mod Sums
pub mod Overflows
pub mod Found
pub mod Work
