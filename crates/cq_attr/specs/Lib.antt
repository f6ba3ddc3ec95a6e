pub mod NotesValue
pub mod Chains
pub mod Attributes
pub mod Layout
