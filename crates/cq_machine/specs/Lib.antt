pub mod Machines
pub mod Stepping
pub mod Offers
-- what its clauses cite of a lower crate
pub mod Stops
pub mod Calls
pub mod Refusals
-- what its clauses cite of a lower crate
pub use Rattle.cq_relations.specs.Faults
