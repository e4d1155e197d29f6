pub mod Own
pub mod Least
