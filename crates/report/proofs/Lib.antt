pub mod Chaining
pub mod Adding
