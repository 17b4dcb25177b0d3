pub mod Joining
pub mod Zeros
pub mod Tallying
pub mod Behind
pub mod Counting
