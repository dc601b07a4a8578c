pub mod Decimal
pub mod Little
pub mod Writing
pub mod Fixed
