pub mod Answer
pub mod Block
pub mod Ceilings
pub mod Grey
pub mod Numbering
pub mod Rows
pub mod Size
pub mod Steps
