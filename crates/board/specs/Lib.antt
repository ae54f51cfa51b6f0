pub mod Board
pub mod Rule
pub mod Pane
pub mod LittleEndian
