pub mod Rules
pub mod Past
pub mod Checks
pub mod Books
pub mod Law
