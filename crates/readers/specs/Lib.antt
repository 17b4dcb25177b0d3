pub mod Entries
pub mod Tallies
pub mod Whole
pub mod Within
