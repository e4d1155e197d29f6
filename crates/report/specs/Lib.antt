pub mod Texts
pub mod Lines
pub mod Parts
pub mod Files
pub mod Least
