pub mod Places
pub mod Ranges
pub mod Fixed
