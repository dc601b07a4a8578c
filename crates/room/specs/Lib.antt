pub mod Crossed
pub mod Answer
pub mod Steps
