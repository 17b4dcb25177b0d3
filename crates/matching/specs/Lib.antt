pub mod Rules
pub mod Grouping
pub mod Matching
pub mod Folding
