mod Newest
mod Linked
pub mod Elements
mod Watched
mod Slots
pub mod Numbers
mod Parts
mod Changes
mod Awake
