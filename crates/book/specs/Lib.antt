pub mod Judging
pub mod Laws
pub mod Sizes
pub mod Tallies
pub mod Whole
