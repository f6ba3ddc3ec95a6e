pub mod Cells
pub mod Standing
pub mod Coming
pub mod Trying
pub mod Parts
