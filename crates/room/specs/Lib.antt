pub mod Room
pub mod Sound
pub mod Boards
pub mod Unseen
pub mod Origin
pub mod Step
pub mod Mergeable
pub mod Gathering
