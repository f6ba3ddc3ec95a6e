pub mod NamesLookups
mod Next
mod Readings
pub mod Kept
pub mod ParseNaming
pub mod Trees
pub mod Interned
pub mod Defaults
mod Growth
mod Naming
mod Lookups
mod Seen
mod Steps
mod Running
mod Passing
mod Zeros
mod Marked
mod Feeding
