pub mod References
pub mod Settling
pub mod Steps
pub mod Counting
pub mod Reads
pub mod Laws
pub mod StepLaws
pub mod TokenLaws
