pub mod Filling
pub mod Within
