pub mod Crossed
pub mod Faces
pub mod Filling
pub mod Fixed
