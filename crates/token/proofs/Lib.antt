pub mod Pieces
pub mod Steps
pub mod Decimals
pub mod Fronts
pub mod Finds
pub mod Readings
