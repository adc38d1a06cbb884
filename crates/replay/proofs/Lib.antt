pub mod Entering
pub mod Unlent
