pub mod Chains
pub mod Answer
pub mod Rules
pub mod Steps
