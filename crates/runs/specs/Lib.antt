pub mod Names
pub mod Events
pub mod Source
pub mod Machine
pub mod Code
pub mod Placed
pub mod Statements
pub mod Samples
