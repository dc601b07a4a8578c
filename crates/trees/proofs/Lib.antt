pub mod Trees
pub mod Searches
pub mod Stored
pub mod Unites
pub mod Joins
pub mod Fixed
