pub mod Given
pub mod Handed
pub mod Nearest
pub mod Collected
pub mod Places
pub mod Marked
pub mod Moved
pub mod Recovered
pub mod Handing
pub mod Listed
pub mod Gathering
pub mod Restored
pub mod SavedNewest
pub mod Settled
pub mod Known
mod Terms
mod Ruled
mod Comparing
mod MatchingNewest
pub mod Outlasting
pub mod Reached
mod Asked
-- laws of a lower crate
pub use Rattle.cq_branch.proofs.Back
pub mod Counted
mod Going
mod Showing
pub mod Refused
mod Declared
