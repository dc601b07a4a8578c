pub mod Halves
pub mod Steps
pub mod Quiets
pub mod Fixed
