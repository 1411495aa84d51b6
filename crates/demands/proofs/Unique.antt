-- Unique: for every public function of every library crate, over its own promise, two answers and two states of what was lent that meet it for
-- the same arguments are equal. One law (Call.antt's `alike`: what equals the same is equal), then a line for each function, a file for each
-- crate. Printed by scripts/catalogue from the functions' signatures, but for the functions of `bit_reader` over a reader.
pub mod Bits
pub mod BitReader
pub mod Crc
pub mod LentBytes
pub mod Tables
pub mod Derived
pub mod Header
pub mod RecordCheck
pub mod SideInfo
pub mod ScaleFactors
pub mod Huffman
pub mod Reservoir
pub mod Frame
pub mod Reorder
pub mod Lines
pub mod Input
pub mod Fields
pub mod FrontEnd
