pub mod Search
pub mod Chains
pub mod With
pub mod Exactly
pub mod Fixed
