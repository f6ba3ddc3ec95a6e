pub mod Kept
pub mod Built
mod Operators
pub mod Over
pub mod Interned
mod Thrown
mod Arguments
pub mod Errors
pub mod Machines
-- laws of a lower crate
pub use Rattle.cq_choices.proofs.Leading
pub mod Reached
mod Stopped
mod Equal
mod Called
mod More
mod Whole
mod Grown
mod Declared
