pub mod Balls
pub mod Gathering
pub mod Taking
pub mod Listing
pub mod Asking
pub mod Matching
-- what its clauses cite of a lower crate
pub use Rattle.cq_branch.specs.Stops
pub mod Finding
-- what its clauses cite of lower crates
pub use Rattle.cq_choices.specs.Held
pub mod Revised
pub mod Permissions
