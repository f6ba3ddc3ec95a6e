pub mod ReadingSeen
pub mod Once
pub mod ByMachine
pub mod Onward
mod Later
pub mod ReadingCounted
mod Ends
pub mod Decides
pub mod Anywhere
mod Same
mod Blanks
pub mod WritingNames
mod Stops
mod TokenCuts
mod Numbered
mod Edges
mod Touching
mod Chains
mod Law
mod Start
mod Cuts
mod Marks
pub mod Wholes
mod Quotes
pub mod Numerals
mod WritingCounted
mod Renamed
mod WritingSeen
mod Shown
pub mod Decimals
mod Pieces
pub mod RenumberedNames
