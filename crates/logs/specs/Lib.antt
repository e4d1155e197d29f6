pub mod Refusals
pub mod Pairings
pub mod Lines
pub mod Force
pub mod Refusing
pub mod Answers
pub mod Promise
