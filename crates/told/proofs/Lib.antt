pub mod Offsets
pub mod Fixed
pub mod States
