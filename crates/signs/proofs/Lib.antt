pub mod Rows
pub mod Windows
pub mod Planes
pub mod RowSigns
pub mod Fixed
pub mod Swaps
pub mod Spread
