pub mod Numbers
pub mod Faults
pub mod Tokens
pub mod Readings
pub mod Results
