pub mod Asked
pub mod Language
