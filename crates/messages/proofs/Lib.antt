pub mod Bounds
pub mod Pieces
pub mod Short
pub mod Trip
