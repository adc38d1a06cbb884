pub mod Figures
pub mod Readings
pub mod Writings
pub mod Audits
