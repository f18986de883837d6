pub mod Kept
mod Places
mod Sent
mod Wakes
