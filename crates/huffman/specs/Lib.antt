-- What is promised of a slot's numbers, and, for the private functions alone, the table that they go by.
pub mod Slot
pub mod Runs
pub mod SlotLaws
pub mod Ahead
pub mod Cells
pub mod Owns
pub mod Run
pub mod Signed
pub mod Found
