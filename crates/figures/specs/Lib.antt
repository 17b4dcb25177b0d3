pub mod Amounts
pub mod Keyed
