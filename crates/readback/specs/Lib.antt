pub mod Answers
pub mod Lent
pub mod Passes
pub mod Sums
pub mod Tops
