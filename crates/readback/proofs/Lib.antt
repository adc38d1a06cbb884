mod Answering
mod Figures
mod FillTurns
mod Filling
mod Headings
mod Holding
mod Judging
mod Numbers
mod Putting
mod Room
pub mod Rows
mod Tallies
mod Tallying
pub mod Telling
mod Titles
