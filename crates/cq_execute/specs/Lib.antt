pub mod Changing
pub mod Asked
pub mod Found
pub mod Machines
pub mod Executions
pub mod Stops
pub mod Rows
pub mod Callees
pub mod Small
-- what its clauses cite of a lower crate
pub use Rattle.cq_machine.specs.Offers
