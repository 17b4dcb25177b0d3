pub mod Bytes
pub mod References
