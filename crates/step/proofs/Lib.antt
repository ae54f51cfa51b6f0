pub mod Groups
pub mod Hub
pub mod Search
pub mod Thirds
pub mod Verdicts
