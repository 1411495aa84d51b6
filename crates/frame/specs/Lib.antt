-- What the helpers' contracts say beside the definition, and one frame over lent memory.
pub mod Memory
pub mod Slot
