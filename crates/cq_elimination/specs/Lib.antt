pub mod FourierSides
pub mod Steps
pub mod Next
pub mod Scaling
pub mod Lines
pub mod Arranging
pub mod ApartSides
