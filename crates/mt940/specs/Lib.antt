pub mod Entries
pub mod Laws
pub mod Tallies
pub mod Whole
