pub mod Limits
pub mod CodeKinds
pub mod Shapes
pub mod Decodes
pub mod Ranges
pub mod Encoded
