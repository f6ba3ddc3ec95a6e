mod Behind
mod Stored
mod ChangesChanged
mod ChangesAsked
pub mod Kept
pub mod OptimaAsked
pub mod Children
pub mod Stopping
mod Table
mod Reached
mod Stopped
mod Done
mod Offered
mod Passed
mod Called
mod Changed
mod Asked
mod Heads
mod Outcomes
-- laws of a lower crate
pub use Rattle.cq_machine.proofs.Errors
pub use Rattle.cq_machine.proofs.Machines
