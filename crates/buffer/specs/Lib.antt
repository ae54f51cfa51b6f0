pub mod Field
pub mod Blocks
pub mod Row
pub mod Word
