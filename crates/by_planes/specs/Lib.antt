pub mod Answer
pub mod Left
pub mod Steps
