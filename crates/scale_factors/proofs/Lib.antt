pub mod Reading
pub mod Plans
pub mod Filling
