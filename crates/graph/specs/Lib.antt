pub mod Below
pub mod Graph
