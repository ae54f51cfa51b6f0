pub mod Code
pub mod Decode
pub mod Decoding
