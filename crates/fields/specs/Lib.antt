pub mod Runs
pub mod Splits
pub mod Units
pub mod Commas
pub mod Written
