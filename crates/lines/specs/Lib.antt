pub mod Form
pub mod Reading
pub mod Checking
pub mod Readers
