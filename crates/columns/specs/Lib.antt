pub mod Calendar
pub mod Layouts
pub mod Periods
pub mod Places
pub mod Months
pub mod Placing
pub mod Days
pub mod Years
