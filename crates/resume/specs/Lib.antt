pub mod Ranges
pub mod Rows
pub mod Writing
pub mod Heads
pub mod Versions
pub mod Resumed
