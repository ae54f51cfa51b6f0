pub mod Answers
pub mod Heard
pub mod Origins
