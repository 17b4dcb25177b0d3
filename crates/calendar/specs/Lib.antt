pub mod Calendar
pub mod Dates
