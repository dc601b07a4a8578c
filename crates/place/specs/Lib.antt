pub mod Crossing
pub mod Place
pub mod Steps
pub mod Unit
