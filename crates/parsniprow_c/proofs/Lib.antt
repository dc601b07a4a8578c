pub mod Puts
pub mod Fixed
