pub mod Slashes
pub mod Codes
