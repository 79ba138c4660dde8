mod Others
pub mod Turns
