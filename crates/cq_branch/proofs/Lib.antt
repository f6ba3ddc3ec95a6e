pub mod Control
pub mod Selected
pub mod Arrived
pub mod Rested
pub mod Branches
pub mod Added
pub mod Done
pub mod Grown
pub mod Calling
pub mod Beginning
pub mod Older
pub mod Passing
pub mod Reading
pub mod Disjunctions
pub mod Arguments
pub mod Budgets
pub mod Saving
pub mod Listed
pub mod Counted
pub mod Copied
mod Woken
mod Begins
mod Free
mod Constants
mod Leading
mod BeginMarks
pub mod Newer
pub mod Stopping
mod Renamed
mod Entered
mod Instances
pub mod Back
