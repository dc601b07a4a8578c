pub mod PlainCubes
pub mod Fixed
