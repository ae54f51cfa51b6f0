pub mod Append
pub mod Commons
