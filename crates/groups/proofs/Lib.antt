pub mod Dividing
pub mod Writing
pub mod Spelling
pub mod Whole
