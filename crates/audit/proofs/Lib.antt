pub mod Shares
pub mod Sheets
pub mod Counting
pub mod Settled
mod Found
mod Texts
