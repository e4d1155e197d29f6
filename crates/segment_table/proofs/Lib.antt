pub mod Touching
pub mod Counting
