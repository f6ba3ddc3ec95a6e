pub mod Built
pub mod FirstArguments
pub mod StoredNamed
pub mod Numbering
pub mod Reading
pub mod Renamed
pub mod Marks
pub mod Completed
pub mod Matched
pub mod Named
pub mod PartTerms
pub mod Selection
pub mod Started
pub mod Telling
pub mod Unifying
mod Excluded
mod Predicates
mod Changes
mod Instances
mod Whole
