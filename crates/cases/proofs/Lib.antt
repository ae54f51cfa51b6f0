pub mod Table
pub mod Called
