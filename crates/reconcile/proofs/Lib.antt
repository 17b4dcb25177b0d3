pub mod Handing
pub mod Zeroing
