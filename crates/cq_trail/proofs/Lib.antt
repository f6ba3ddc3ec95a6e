pub mod Restore
pub mod Stamps
pub mod Kept
pub mod Zip
pub mod Cut
pub mod Counting
