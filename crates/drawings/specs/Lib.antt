pub mod Arcs
pub mod Drawings
pub mod Flows
pub mod Graphs
pub mod Theorems
pub mod Examples
