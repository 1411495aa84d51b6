-- Why the flat table reads the published codes; why what is made of its leaves is the numbers of the definition; and why pairs and quads one after the other
-- are a slot's.
pub mod Cutting
pub mod Nodes
pub mod Reading
pub mod Once
pub mod Owning
pub mod Finding
pub mod Numerals
pub mod Running
pub mod Fours
pub mod Filling
pub mod Whole
