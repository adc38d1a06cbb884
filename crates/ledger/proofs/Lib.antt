pub mod Calls
pub mod Drawn
pub mod Fated
pub mod Room
pub mod Steps
pub mod Walks
