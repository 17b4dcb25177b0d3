pub mod Finds
pub mod Partners
pub mod Settles
