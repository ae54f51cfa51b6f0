pub mod Record
pub mod Tape
pub mod Reader
