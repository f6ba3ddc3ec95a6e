pub mod Dictionary
pub mod Answers
pub mod Checked
pub mod Turns
pub mod Climbs
