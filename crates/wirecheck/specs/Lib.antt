pub mod Words
pub mod Reports
pub mod Logs
