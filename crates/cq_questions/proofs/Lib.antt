mod Bound
mod Binding
mod Listed
mod Moments
pub mod Answered
mod Undone
