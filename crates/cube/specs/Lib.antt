pub mod Answer
pub mod Faces
