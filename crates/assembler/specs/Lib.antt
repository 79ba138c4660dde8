pub mod Jumps
pub mod Views
