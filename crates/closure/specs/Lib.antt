pub mod Faces
pub mod Quads
