pub mod Values
pub mod Members
pub mod Extents
pub mod Stops
