pub mod Agree
pub mod SoundVertices
pub mod SoundQuads
pub mod Outcome
pub mod Rows
pub mod Fixed
