mod Examples
pub mod Spelling
pub mod Cells
pub mod Words
pub mod Numbers
pub mod Tops
pub mod Titles
pub mod Rows
pub mod Sums
pub mod Files
pub mod Shows
pub mod Writes
pub mod Placed
pub mod Gives
