pub mod Signs
pub mod Numbers
pub mod Balances
pub mod Movements
