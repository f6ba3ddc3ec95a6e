pub mod TrailValue
pub mod Log
pub mod StackValue
pub mod Counting
