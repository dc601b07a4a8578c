pub mod Stored
pub mod Cubes
pub mod Fixed
