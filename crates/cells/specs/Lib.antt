pub mod Places
pub mod Faults
pub mod Numbers
pub mod Dates
pub mod Cells
pub mod Judged
