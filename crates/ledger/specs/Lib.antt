pub mod Answers
pub mod Views
pub mod Fates
pub mod Openings
pub mod Calls
