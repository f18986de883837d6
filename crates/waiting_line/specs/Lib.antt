pub mod Gaps
pub mod Lines
pub mod Searches
