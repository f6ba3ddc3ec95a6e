pub mod Characters
pub mod Held
pub mod Bounds
mod Sizes
pub mod Tiles
pub mod Again
mod Kept
mod KeptQuotes
mod KeptNumerals
mod KeptTokens
pub mod Settled
pub mod Names
mod Behind
mod Steps
pub mod Runs
pub mod Written
pub mod ReadBack
pub mod Tables
