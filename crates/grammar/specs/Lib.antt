pub mod Lines
pub mod Files
pub mod Sound
pub mod Shown
pub mod Given
