-- Why a byte at a time comes to what eight bits one by one do.
pub mod Bytes
pub mod Words
pub mod Strings
