pub mod Masks
pub mod Cubes
pub mod BitSays
pub mod ActiveCubes
pub mod Edges
pub mod Fixed
