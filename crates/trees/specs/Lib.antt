pub mod Forest
pub mod Steps
