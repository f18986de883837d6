pub mod Notes
pub mod Along
pub mod Changes
pub mod Ends
pub mod Dues
