pub mod Finding
pub mod Lining
pub mod Scanned
pub mod Inside
