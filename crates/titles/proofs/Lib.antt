pub mod Fitness
pub mod Halves
pub mod Spelled
