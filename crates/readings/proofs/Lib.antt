pub mod Example
pub mod Wholes
pub mod Floor
pub mod Cases
pub mod Rows
pub mod Readings
pub mod Fixed
