pub mod Entries
pub mod Mentions
pub mod Table
pub mod Laws
