mod Products
pub mod PrintingLines
mod Joined
pub mod Named
pub mod Variables
mod Found
pub mod Asleep
mod Agreement
mod Members
mod Numbering
mod Counting
mod RowTexts
mod Whole
mod Shows
mod Joining
mod Stands
mod States
mod Answered
