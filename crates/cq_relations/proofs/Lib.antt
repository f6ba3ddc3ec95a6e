mod Values
mod Growing
mod Marks
pub mod Equating
mod Asleep
mod Curly
