pub mod Rest
pub mod Sharing
pub mod Slots
pub mod Stages
pub mod Turns
