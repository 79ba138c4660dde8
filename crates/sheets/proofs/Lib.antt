pub mod Members
pub mod Values
pub mod Placing
pub mod Spelling
pub mod Answering
pub mod Agreeing
