pub mod Chains
pub mod Orders
pub mod Goings
