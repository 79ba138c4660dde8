pub mod Words
pub mod Wrapping
pub mod Stopping
pub mod Stops
pub mod Wraps
