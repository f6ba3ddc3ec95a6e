mod Arities
pub mod Ranges
pub mod Splitting
pub mod Rebuilt
pub mod Compared
pub mod Elements
pub mod SetWhole
pub mod NumberTexts
