pub mod Calls
pub mod Sides
pub mod Dues
pub mod Guards
