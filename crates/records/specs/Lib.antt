pub mod Items
pub mod Readers
pub mod Requests
pub mod Sources
