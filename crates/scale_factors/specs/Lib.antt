pub mod Groups
pub mod Flat
