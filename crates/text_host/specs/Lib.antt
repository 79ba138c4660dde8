pub mod Rendering
pub mod Texts
