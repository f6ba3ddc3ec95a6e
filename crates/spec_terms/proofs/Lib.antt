pub mod Substitution
pub mod Unifiers
pub mod Listed
mod Numbering
pub mod Renamed
pub mod RenamedVariables
pub mod Among
pub mod Bindings
pub mod UnifiedLemmas
pub mod Orders
pub mod Renamings
pub mod NamedVariants
pub mod Refusals
pub mod Rounded
pub mod Results
pub mod Wholes
