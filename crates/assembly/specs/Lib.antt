pub mod Words
pub mod Plans
pub mod Drawn
pub mod Laws
