pub mod Rules
pub mod Ranges
pub mod Forwardings
