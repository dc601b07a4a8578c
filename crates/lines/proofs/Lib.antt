pub mod Writing
pub mod Texts
pub mod Closing
pub mod Blocks
pub mod Outputs
pub mod Prefix
