pub mod Rows
pub mod File
pub mod Answer
pub mod Words
pub mod Steps
