pub mod Run
pub mod Starred
pub mod Requests
pub mod Called
