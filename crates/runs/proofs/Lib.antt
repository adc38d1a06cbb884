pub mod Filters
pub mod Cells
pub mod Standing
pub mod Keeping
pub mod Telling
pub mod Judging
pub mod Laws
