pub mod Told
pub mod Engines
mod Halted
mod Sought
mod Gathered
mod Selections
mod Steps
mod Raised
mod Ended
mod Stops
mod Thrown
mod Turned
mod Idle
mod Marks
mod Read
mod InFront

-- laws of a lower crate
