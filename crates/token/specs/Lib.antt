pub mod Tokens
pub mod Lexis
pub mod Transducer
pub mod Views
pub mod Numbers
pub mod Reading
