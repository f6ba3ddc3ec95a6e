pub mod RowText
pub mod Lines
pub mod Rows
pub mod Forms
pub mod Targets
pub mod Answer
pub mod Samples
pub mod Marks
