pub mod Steps
pub mod Months
pub mod Twos
pub mod Inverse
