pub mod Ranges
pub mod Crossed
pub mod Round
pub mod Numbers
pub mod Writes
pub mod RowQuads
pub mod Counts
pub mod Fixed
