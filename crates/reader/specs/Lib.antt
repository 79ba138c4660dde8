pub mod Tokens
pub mod Views
pub mod Telling
pub mod Taking
pub mod Settling
