pub mod Language
pub mod Pages
pub mod Endings
pub mod Causes
