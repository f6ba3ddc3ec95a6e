pub mod Overflowing
pub mod Expressed
pub mod Numbers
pub mod Places
pub mod Turns
pub mod Steps
pub mod Sides
