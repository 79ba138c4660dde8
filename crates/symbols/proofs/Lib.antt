pub mod Firsts
pub mod Exact
pub mod Finding
pub mod Holding
pub mod Noting
pub mod Reading
pub mod Whole
pub mod Telling
