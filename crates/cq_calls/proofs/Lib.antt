mod Apart
mod Narrowing
mod Turns
pub mod Left
mod Newest
mod CalledClauses
pub mod Waiting
