pub mod Answers
pub mod Given
pub mod Runs
pub mod Marks
pub mod Foundry
