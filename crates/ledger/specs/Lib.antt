pub mod Denials
pub mod Records
pub mod Intakes
pub mod Headings
pub mod Takings
pub mod Groupings
