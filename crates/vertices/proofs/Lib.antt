pub mod CubeCorners
pub mod Writes
pub mod Rows
pub mod Layers
pub mod Fixed
