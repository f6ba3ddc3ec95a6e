pub mod Cover
pub mod Search
pub mod Infima
