pub mod Writing
pub mod Reducing
pub mod Acting
