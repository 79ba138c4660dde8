pub mod Packing
pub mod States
