pub mod Edges
pub mod Writing
