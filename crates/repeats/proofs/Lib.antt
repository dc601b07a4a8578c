pub mod Marks
pub mod Ranges
pub mod Tables
pub mod Fixed
