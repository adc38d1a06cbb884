pub mod Bytes
pub mod Fielding
pub mod Spelling
pub mod Logging
pub mod Parting
pub mod Writing
pub mod Damaging
