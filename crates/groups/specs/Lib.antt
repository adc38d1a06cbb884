pub mod Frames
pub mod Views
pub mod Written
