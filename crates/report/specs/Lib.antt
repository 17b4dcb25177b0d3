pub mod Outputs
pub mod Rows
pub mod Tallies
pub mod Reports
pub mod Lines
