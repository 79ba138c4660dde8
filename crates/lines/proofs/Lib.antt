mod Bytes
mod Forms
mod Prefixes
mod Checks
mod Steps
pub mod Bounds
