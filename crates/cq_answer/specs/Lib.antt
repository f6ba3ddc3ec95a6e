pub mod Names
pub mod Texts
pub mod Shown
pub mod Numbered
pub mod Standing
pub mod Lines
