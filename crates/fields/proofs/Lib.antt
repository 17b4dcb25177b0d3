pub mod Powers
pub mod Parts
pub mod Values
pub mod Readings
pub mod Numbers
pub mod Begun
