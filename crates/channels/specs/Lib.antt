pub mod Meaning
pub mod Ends
pub mod Backplanes
pub mod Lined
pub mod Wires
