pub mod Answered
pub mod Commanded
pub mod Taken
pub mod RoundTrip
pub mod View
