pub mod Judged
pub mod Matches
pub mod Faults
pub mod Shuffled
pub mod Distinct
pub mod Spots
