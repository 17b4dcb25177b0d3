pub mod Moves
pub mod Scans
pub mod Sums
