pub mod Opened
pub mod Below
pub mod Lists
