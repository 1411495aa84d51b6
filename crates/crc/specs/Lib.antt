-- Words that the functions of this crate promise with.
pub mod Odd
