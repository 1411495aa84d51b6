pub mod Cuts
pub mod Fields
pub mod Loops
pub mod Sides
