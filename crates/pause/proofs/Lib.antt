pub mod Piled
pub mod Pieces
pub mod Tapes
