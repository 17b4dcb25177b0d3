pub mod Threes
pub mod Same
pub mod Sames
