pub mod Three
pub mod Along
pub mod Planes
pub mod Tallies
pub mod Bounds
pub mod Most
pub mod Example
pub mod Fixed
