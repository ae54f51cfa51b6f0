pub mod Layout
pub mod Rules
pub mod Check
pub mod Rows
