pub mod Widths
pub mod Gains
pub mod Tests
