pub mod Granted
pub mod Walking
pub mod Numbering
pub mod Dating
pub mod Reading
pub mod Judges
pub mod Judging
