pub mod Stages
pub mod Judging
pub mod Sizes
