pub mod Carries
pub mod FirstLines
pub mod OneLine
pub mod Posts
pub mod Wired
pub mod WireSteps
