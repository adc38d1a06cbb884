pub mod Faults
pub mod Fields
pub mod Entries
pub mod Lists
pub mod Written
pub mod Broken
