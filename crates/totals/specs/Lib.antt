pub mod Running
pub mod Lines
