-- Why bytes side by side spell a number, and a field is cut out of eight.
pub mod Spelt
