pub mod Answers
pub mod Checks
pub mod Counting
pub mod Labels
pub mod Puts
pub mod Reports
pub mod Tables
pub mod Written
