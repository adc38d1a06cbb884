pub mod Fields
pub mod Groups
pub mod Logs
pub mod Written
pub mod Apart
pub mod Damages
