pub mod Filled
pub mod Answers
pub mod Words
pub mod Unit
