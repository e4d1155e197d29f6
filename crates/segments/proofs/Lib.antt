pub mod Chains
pub mod Laws
pub mod Forward
pub mod Lines
