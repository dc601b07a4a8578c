pub mod Text
pub mod Faults
pub mod Input
pub mod Words
pub mod Steps
