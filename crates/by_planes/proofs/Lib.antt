pub mod Rows
pub mod Lefts
pub mod Calls
pub mod Fixed
pub mod Example
