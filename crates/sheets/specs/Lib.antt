pub mod Images
pub mod Runs
pub mod Laws
pub mod Samples
