pub mod Seeking
pub mod Fronts
-- what its clauses cite of lower crates
pub use Rattle.cq_branch.specs.Stops
pub mod Events
pub mod Raised
pub mod Turning

-- what its clauses cite of lower crates
