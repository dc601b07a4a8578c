pub mod Places
pub mod Files
pub mod Rows
pub mod Accepted
pub mod Written
pub mod Back
pub mod Example
pub mod Fixed
