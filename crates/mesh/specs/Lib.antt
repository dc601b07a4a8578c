pub mod Source
pub mod Answer
pub mod Steps
pub mod Writes
