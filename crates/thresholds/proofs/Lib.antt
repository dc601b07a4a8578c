pub mod Rows
pub mod Threes
pub mod Marks
pub mod Verdicts
pub mod Fixed
pub mod Example
