pub mod Slices
pub mod Tags
pub mod Marks
pub mod Cuts
